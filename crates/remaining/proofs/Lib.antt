mod Ending
mod FilledTo
mod Marks
mod Settling
mod Staging
mod Unawaited
