pub mod PageWrites
