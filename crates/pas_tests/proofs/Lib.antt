mod BetweenCalls
mod Besides
mod Stormed
mod Walked
