mod Bounds
mod Going
mod Running
mod Onwards
mod Judging
