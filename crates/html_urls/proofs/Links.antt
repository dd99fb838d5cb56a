pub mod LinkLaw
pub mod SchemeOf
