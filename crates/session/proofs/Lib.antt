mod RowFacts
mod Reaching
