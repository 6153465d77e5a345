pub mod SentLists
