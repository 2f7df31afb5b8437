-- Demand 3, and what stands beside it. Assumes nothing.

-- the exchange of messages
pub mod Core
pub mod Laws
pub mod Outcomes
pub mod Numbers
pub mod Stages
pub mod FirstRound
pub mod LaterRounds
pub mod Pairs
pub mod Settling
pub mod Idle
pub mod Losses
pub mod Acknowledged
pub mod Fixed
-- ports and frames
pub mod Steps
pub mod View
pub mod Frames
pub mod Calls
pub mod Simulation
pub mod Started
pub mod Restarts
pub mod Claims
-- the theorems
pub mod Demand3
pub mod Recorders
pub mod Handover
pub mod Starting
pub mod NotEmpty
pub mod Tight
pub mod Steady
pub mod Revisions
pub mod RoundTrip
