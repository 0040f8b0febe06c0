-- The numbers of document 01's table 'Where a call is turned down' and those that document 02 adds, each once. Assumes nothing.
use Rattle.std.specs.Prelude.{ℕ, Result, Ok, Err}
use Rattle.limits.specs.declared.Refusal.{Refusal}
use Rattle.limits.specs.declared.Refusal.TheVariants.{BadLength, BadForm, OutOfRange, NotRising, ManyDelays, BadStore, TooMany, ShortPart}
use Rattle.limits.specs.declared.Refusal.TheVariants.{BadRecord, BadMessage, BadTick, NotEachOnce, BadPart, BadTurn}

-- no refusal
abbrev pub accepted : ℕ
accepted = 0

-- 'P line: W below H + D'; by document 02's #109 'given no longer', and no other number takes its place
abbrev pub short_time_out : ℕ
short_time_out = 4

abbrev pub number_of : Refusal → ℕ
-- 'run file, length: 0 or above 65,536 bytes'
number_of BadLength = 1
-- 'line, form: letter, field count, digits, line feed or order of letters'
number_of BadForm = 2
-- 'line, range: a number outside its range, node not below N'
number_of OutOfRange = 3
-- 'C, L lines: not rising, or a node twice'
number_of NotRising = 5
-- 'L lines: the 2,049th'
number_of ManyDelays = 6
-- 'store: other length, a field out of range, or an unused byte not zero'
number_of BadStore = 7
-- 'event: more than 2,048 in flight after it'
number_of TooMany = 8
-- 'log, file or message part: .. under 65,536 for a run file', by 02, #103, 'under 80 for every log part' and by #107 'under 112 for messages'
number_of ShortPart = 9
-- 'node record: other length, or a field out of range'
number_of BadRecord = 10
-- 'message: unknown kind; sender not below N or the node itself; on R, subject not below N or the node itself', and by 02, #107, 'a list with a
-- bit from N on'
number_of BadMessage = 11
-- 'node call, tick: before the record's last tick, or above 1,000,000'
number_of BadTick = 12
-- document 02, #101: 'Q is not each node once; tried after 3 on the Q line'
number_of NotEachOnce = 13
-- document 02, #104: 'the part empty or above eight stores'
number_of BadPart = 14
-- document 02, #104: 'turn length outside its range'
number_of BadTurn = 15

-- what a call answers to C: 0, or the number of its refusal
abbrev pub answer_of : {A : Type 0} → Result A Refusal → ℕ
answer_of (Ok a) = accepted
answer_of (Err refusal) = number_of refusal
