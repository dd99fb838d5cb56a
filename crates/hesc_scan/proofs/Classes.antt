pub mod Entries
use Rattle.std.proofs.lemmas.Bool.Decides.{nat_tests}
pub mod Flags
pub mod Groups
