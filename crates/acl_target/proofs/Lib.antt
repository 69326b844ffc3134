pub mod SharedLists
