mod Clearing
mod Units
