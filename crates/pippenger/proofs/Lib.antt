mod Stored
mod Refusing
mod Summing
mod Answering
