mod Handle
mod Refusal
