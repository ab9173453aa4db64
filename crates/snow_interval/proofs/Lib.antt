mod Apart
mod Examples
mod Growing
mod Parting
mod Running
