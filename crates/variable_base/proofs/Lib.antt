mod Walking
mod Answering
