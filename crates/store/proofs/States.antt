-- The bytes that each change of a state leaves. Assumes nothing.
use Prim.Native.Nat.{ℕ, suc, ◌+◌, ◌-◌, ◌<◌, ◌≤◌, ◌^◌}
use mathlib.Core.Path.{◌≡◌, refl, sym, ap, ◌∙◌}
use mathlib.Core.Bool.{true}
use mathlib.Core.List.{List, [], ◌∷◌, ◌++◌}
use native.Mathlib.Numerals.{add-one}
use native.Mathlib.Omega.{arith}
use borrow.Author.Rules.{rules}
use lib.ListN.{length, length-set, length-append}
use Rattle.fields.specs.Fields.{put_at}
use Rattle.node.specs.declared.Node.{Node}
use Rattle.plans.specs.Plan.{Plan}
use Rattle.limits.specs.Limits.{most_in_flight}
use Rattle.model.specs.Platform.{State, InFlight, without}
use Rattle.store.specs.declared.layout.Field.{Field}
use Rattle.store.specs.Columns.{cell_put, bytes_of, columns_of, RowFits, RowsFit, row_put, row_out, rows_cleared, Column}
use Rattle.store.specs.Store.{crashes_done, last_tick, next_number, message_count, columns, encode, plan_in, state_in, contents}
use Rattle.store.specs.Store.{head_parts, ring_parts, node_parts, crash_parts, delay_parts, time_parts, route_parts, message_parts}
use Rattle.store.specs.Inside.{SmallNode, Fits, Held, with_node, with_tick, crashed, without_message, with_flight, with_message, number_taken}
use Rattle.store.specs.Filling.{put_node}
use Rattle.store.proofs.Columns.{with_number, has_number, number_put, length_without, Laid}
use Rattle.store.proofs.Groups.{row-put, row-added, row-out, rows-cleared, fit-set, fit_append, fit-without}
use Rattle.store.proofs.Store.{done-lt, laid, node-places, message-places, at-nodes, at-messages, before_nodes, after_nodes, before_messages, after_messages}

-- ---- the bytes

module _ (p : Plan) (s : State) (f : Fits p s) where
  -- a number of the head is put
  head-put : (g : Field) (x : ℕ) (s' : State) → has_number (columns p s) g ≡ true → with_number (columns p s) g x ≡ columns p s'
      → cell_put (encode p s) g 0 x ≡ encode p s'
  unfolding encode
  head-put g x s' has same = (number_put [] (columns p s) g x has (laid p s f)).0 ∙ ap bytes_of same

  tick-bytes : (t : ℕ) → cell_put (encode p s) last_tick 0 t ≡ encode p (with_tick s t)
  unfolding columns columns_of head_parts has_number with_number with_tick
  tick-bytes t = head-put last_tick t (with_tick s t) refl refl

  crash-bytes : cell_put (encode p s) crashes_done 0 (s.done + 1) ≡ encode p (crashed s)
  unfolding columns columns_of head_parts has_number with_number crashed
  crash-bytes = head-put crashes_done (s.done + 1) (crashed s) refl (rw (add-one s.done))

  number-bytes : cell_put (encode p s) next_number 0 (s.next + 1) ≡ encode p (number_taken s)
  unfolding columns columns_of head_parts has_number with_number number_taken
  number-bytes = head-put next_number (s.next + 1) (number_taken s) refl (rw (add-one s.next))

  node-bytes : (i : ℕ) (a : Node) → i < length s.nodes → row_put node_parts (encode p s) i a ≡ encode p (with_node s i a)
  unfolding encode with_node columns_of head_parts ring_parts
  node-bytes i a h =
      let room : length s.nodes ≤ 64 = omega (arith, f.nodes, f.counts.nodes) in
      rw (at-nodes p s, at-nodes p (with_node s i a))
      (row-put 64 node_parts node-places (before_nodes p s) (after_nodes p s) s.nodes (rw (← at-nodes p s) (laid p s f)) i a h room).0

  -- the columns with other messages, and the count of those before
  abbrev flying : List InFlight → List Column
  flying ms = before_messages p s ++ (columns_of message_parts ms ++ after_messages p s)

  -- the messages are changed, then their count
  flight-put : (ms : List InFlight) (b : List ℕ) (n : ℕ) → n ≡ length ms
      → (b ≡ bytes_of (flying ms)) × Laid 0 (flying ms)
      → cell_put b message_count 0 n ≡ encode p (with_flight s ms)
  unfolding encode columns columns_of head_parts ring_parts node_parts crash_parts delay_parts has_number with_number with_flight
  flight-put ms b n e h = rw (h.0, e) (number_put [] (flying ms) message_count (length ms) refl h.1).0

  few : length s.flight ≤ 2048
  few = f.counts.messages

  laid-here : Laid 0 (flying s.flight)
  laid-here = rw (← at-messages p s) (laid p s f)

  message-bytes : (m : InFlight) → length s.flight < most_in_flight
      → cell_put (row_put message_parts (encode p s) (length s.flight) m) message_count 0 (length s.flight + 1) ≡ encode p (with_message s m)
  unfolding encode
  message-bytes m h =
      flight-put (s.flight ++ (m ∷ [])) _ _ (sym (length-append s.flight (m ∷ [])))
      (rw (at-messages p s) (row-added 2048 message_parts message-places (before_messages p s) (after_messages p s) s.flight laid-here m h))

  take-bytes : (i : ℕ) → i < length s.flight
      → cell_put (row_out message_parts (encode p s) i (length s.flight)) message_count 0 (length s.flight - 1) ≡ encode p (without_message s i)
  unfolding encode without_message with_flight
  take-bytes i h =
      flight-put (without i s.flight) _ _ (omega (arith, length_without i s.flight h))
      (rw (at-messages p s) (row-out 2048 message_parts message-places (before_messages p s) (after_messages p s) s.flight laid-here i h few))

  clear-bytes : cell_put (rows_cleared message_parts (encode p s) (length s.flight)) message_count 0 0 ≡ encode p (with_flight s [])
  unfolding encode
  clear-bytes =
      flight-put [] _ _ refl
      (rw (at-messages p s) (rows-cleared 2048 message_parts message-places (before_messages p s) (after_messages p s) s.flight laid-here))

  -- ---- what is changed fits

  -- a state of as many nodes, whose numbers fit
  fits-with : (s' : State) → length s'.nodes ≡ length s.nodes → length s'.flight ≤ most_in_flight → RowFits head_parts (contents p s')
      → RowsFit node_parts s'.nodes → RowsFit message_parts s'.flight → Fits p s'
  fits-with s' nodes few head node_rows message_rows = record {
    nodes = nodes ∙ f.nodes;
    counts = record { nodes = f.counts.nodes; ring = f.counts.ring; crashes = f.counts.crashes; delays = f.counts.delays; messages = few };
    head = head;
    ring_rows = f.ring_rows;
    node_rows = node_rows;
    crash_rows = f.crash_rows;
    delay_rows = f.delay_rows;
    message_rows = message_rows;
  }

  pub tick-fits : (t : ℕ) → t < 256 ^ 4 → Fits p (with_tick s t)
  unfolding with_tick RowFits head_parts
  tick-fits t h = let k = f.head in fits-with (with_tick s t) refl few (search rules) f.node_rows f.message_rows

  pub crash-fits : s.done + 1 < 256 ^ 1 → Fits p (crashed s)
  unfolding crashed RowFits head_parts
  crash-fits h = let k = f.head in fits-with (crashed s) refl few (search rules) f.node_rows f.message_rows

  pub number_fits : s.next + 1 < 256 ^ 8 → Fits p (number_taken s)
  unfolding number_taken RowFits head_parts
  number_fits h = let k = f.head in fits-with (number_taken s) refl few (search rules) f.node_rows f.message_rows

  pub node-fits : (i : ℕ) (a : Node) → i < length s.nodes → SmallNode a → Fits p (with_node s i a)
  unfolding with_node RowFits head_parts node_parts
  node-fits i a h k =
      fits-with (with_node s i a) (length-set s.nodes i a) few f.head (fit-set node_parts s.nodes i a f.node_rows (search rules)) f.message_rows

  pub message-fits : (m : InFlight) → length s.flight < most_in_flight → m.number < 256 ^ 8
      → m.kind < 256 → m.from < 256 → m.to < 256 → m.subject < 256 → m.due < 256 ^ 4 → m.list < 256 ^ 8
      → Fits p (with_message s m)
  unfolding with_flight RowFits RowsFit head_parts time_parts route_parts
  message-fits m h n k1 k2 k3 k4 k5 k6 =
      let k = f.head in
      let e : length (s.flight ++ (m ∷ [])) ≡ length s.flight + 1 = length-append s.flight (m ∷ []) in
      let row : RowsFit message_parts (m ∷ []) = search rules in
      fits-with (with_message s m) refl (omega arith) (search rules) f.node_rows (fit_append message_parts s.flight (m ∷ []) f.message_rows row)

  pub take-fits : (i : ℕ) → i < length s.flight → Fits p (without_message s i)
  unfolding without_message RowFits head_parts
  take-fits i h =
      let k = f.head in
      let e : suc (length (without i s.flight)) ≡ length s.flight = length_without i s.flight h in
      fits-with (without_message s i) refl (omega arith) (search rules) f.node_rows (fit-without message_parts i s.flight f.message_rows)

-- ---- the same of a store's bytes, as the code puts its numbers

module _ (b : List ℕ) (v : Held b) where
  abbrev p : Plan
  p = plan_in b

  abbrev s : State
  s = state_in b

  -- a change of a store is that of the encoding of what it holds
  of-held : (change : List ℕ → List ℕ) (s' : State) → change (encode p s) ≡ encode p s' → change b ≡ encode p s'
  of-held change s' e = ap change v.canonical ∙ e

  pub put-tick : (t : ℕ) → put_at b last_tick.at 4 t ≡ encode p (with_tick s t)
  put-tick t = of-held (λ l. cell_put l last_tick 0 t) (with_tick s t) (tick-bytes p s v.fits t)

  pub put-crash : put_at b crashes_done.at 1 (s.done + 1) ≡ encode p (crashed s)
  put-crash = of-held (λ l. cell_put l crashes_done 0 (s.done + 1)) (crashed s) (crash-bytes p s v.fits)

  pub put-number : put_at b next_number.at 8 (s.next + 1) ≡ encode p (number_taken s)
  put-number = of-held (λ l. cell_put l next_number 0 (s.next + 1)) (number_taken s) (number-bytes p s v.fits)

  pub put-node : (i : ℕ) (a : Node) → i < p.n → put_node b i a ≡ encode p (with_node s i a)
  unfolding put_node
  put-node i a h = of-held (λ l. row_put node_parts l i a) (with_node s i a) (node-bytes p s v.fits i a (rw v.fits.nodes h))

  pub put-message : (m : InFlight) (n : ℕ) → n ≡ length s.flight → n < most_in_flight
      → cell_put (row_put message_parts b n m) message_count 0 (n + 1) ≡ encode p (with_message s m)
  put-message m n e h =
      rw e (of-held (λ l. cell_put (row_put message_parts l (length s.flight) m) message_count 0 (length s.flight + 1)) (with_message s m)
      (message-bytes p s v.fits m (rw (← e) h)))

  pub put-take : (i n : ℕ) → n ≡ length s.flight → i < n
      → cell_put (row_out message_parts b i n) message_count 0 (n - 1) ≡ encode p (without_message s i)
  put-take i n e h =
      rw e (of-held (λ l. cell_put (row_out message_parts l i (length s.flight)) message_count 0 (length s.flight - 1)) (without_message s i)
      (take-bytes p s v.fits i (rw (← e) h)))

  pub put-clear : (n : ℕ) → n ≡ length s.flight → cell_put (rows_cleared message_parts b n) message_count 0 0 ≡ encode p (with_flight s [])
  put-clear n e =
      rw e (of-held (λ l. cell_put (rows_cleared message_parts l (length s.flight)) message_count 0 0) (with_flight s []) (clear-bytes p s v.fits))

-- each change of a store that the code makes by one call
pub ruleset changes = (put-tick, put-crash, put-number, put-node, done-lt)
