pub mod Judged
mod OneLine
