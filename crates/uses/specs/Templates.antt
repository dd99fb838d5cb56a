-- What callers of templates make.
pub mod AssetPages
pub mod Bars
pub mod Breadcrumbs
pub mod DataBlocks
pub mod FormPages
pub mod HomePages
pub mod ItemLinks
pub mod LinkLists
pub mod MailRows
pub mod PageScripts
pub mod PriceLists
pub mod SearchPages
