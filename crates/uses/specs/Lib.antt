pub mod Pages
pub mod Readers
pub mod Templates
pub mod Urls
pub mod Views
pub mod Writers
