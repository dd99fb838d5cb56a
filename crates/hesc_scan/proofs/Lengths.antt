pub mod HtmlSums
use Rattle.std.proofs.lemmas.Bool.Decides.{nat_tests}
pub mod LaneSums
pub mod StringSums
pub mod Bounds
pub mod Longest
