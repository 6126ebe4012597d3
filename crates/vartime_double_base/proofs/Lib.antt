mod Search
mod DoneSum
