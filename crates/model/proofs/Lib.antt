-- In reading order.

-- ---- the invariant, and each kind of event that keeps it: safety

-- states and events as the proof sees them
pub mod Events
-- the invariant, part by part
pub mod Invariant
-- what every event does alike
pub mod EveryEvent
-- what the invariant says of one state
pub mod OneState
-- an event changes one node
pub mod OneNode
-- a watch stays covered
pub mod WatchKept
-- crash
pub mod CrashDone
-- a message that changes nothing
pub mod MessageIgnored
-- H from the emitter
pub mod HeartbeatDelivered
-- O
pub mod ObserverDelivered
-- R of an unlisted node that is not the emitter
pub mod ReportDelivered
-- the emitter is left, by an expired watch or a report: the node moves or is alone
pub mod EmitterLeft
-- heartbeat sent
pub mod HeartbeatDue
-- opening, and any event
pub mod InvariantKept
-- ---- the phases of a run whose crashes are spaced: settling

-- calm, unnoticed, spreading
pub mod Phases
-- events that keep the phase
pub mod QuietEvents
-- a crash out of calm
pub mod CrashFromCalm
-- the crash is noticed
pub mod WatchExpires
-- the report spreads in rounds
pub mod ReportRounds
-- a whole run
pub mod SpacedRuns
-- ---- crashes however close together

-- the wait for each crashed emitter, and once it is over the neighbours
pub mod CloseCrashes
-- then heartbeats bring each list one survivor on, and once they have gone round the lists are complete
pub mod ListsSpread
-- ---- the platform's definitions: the next event and the ranges

-- nothing is left before the next event
pub mod NextEvent
-- opening, and any event
pub mod RangesKept
-- no report is of its receiver, whatever W
pub mod OfOthers
-- e from the calls alone
pub mod Calls
-- the cap on the next number, and the most events
pub mod NextNumber
-- which nodes have crashed
pub mod Crashed
-- ---- the platform's events are those of the proof, and the theorems

-- a state as the proof sees it
pub mod Viewed
-- each event
pub mod EventSteps
-- opening
pub mod Opened
-- any number of events
pub mod Reached
-- a settled node in the words of Claims
pub mod SettledNode
-- SAFETY, SETTLING, RANGES, WHO HAS CRASHED
pub mod Theorems
-- ---- for the layers above: tests for number 7, plans, the search of the next event

-- plans of run files
pub mod Plans
-- the ranges as tests, for number 7
pub mod Tests
-- the search of the next event
pub mod Search
-- an event that is done
pub mod Happened
-- the ranges of lines, and their text
pub mod Lines
-- WHERE A LINE K FOLLOWS: after each expired watch and each report of the emitter, and nowhere else
pub mod Moved
-- ---- worked instances

-- the starred logs, and a state that settles
pub mod Worked
