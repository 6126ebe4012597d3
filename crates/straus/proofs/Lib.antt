mod Refusing
mod Walking
mod Answering
mod RadixDone
mod NafDone
