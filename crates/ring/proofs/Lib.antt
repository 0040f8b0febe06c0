-- In reading order.

-- ---- lists and counts, for the functions

-- what a test keeps, the ring from a place on
pub mod Laws
-- dead lists with one node more, and the empty one
pub mod Lists
-- numbers in order, lists as loops fill them
pub mod Rows
-- counts by set bits, jumps by leading zeros, the targets by exponents
pub mod Counts
-- turns of the searches ahead, back and for a place
pub mod Searches
-- the forwarding table, case by case
pub mod TableLaws
-- ---- the ring in any order

-- each node once: a test keeps as many of any order
pub mod Orders
-- numbers of which none stands twice: at most n below n, and an order of the ring where there are n; as a dead list
pub mod Once
-- the unlisted nodes as a ring of their own, for any test of who is listed
pub mod Unlisted
-- steps back from node to node
pub mod Gaps
-- the nodes that the search for the node before passes, and their number
pub mod Passed
-- what the search back passes, and where going back again and again leads
pub mod GoingBack
-- the same by a dead list, and the neighbours at opening
pub mod Neighbours
-- FORWARD TARGETS: below n, unlisted, other nodes
pub mod Targets
-- EVERY UNLISTED NODE IS REACHED from target to target
pub mod Hops
