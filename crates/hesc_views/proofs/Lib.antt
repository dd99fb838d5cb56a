mod Numbered
mod Checked
mod Named
mod Flushed
mod Read
