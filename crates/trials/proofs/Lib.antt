pub mod FarFirst
mod Once
mod Making
mod Accepting
mod Walking
mod Settled
mod Renewing
mod Leaving
mod Turning
mod Settling
mod Judged
mod Taken
