mod Searched
mod Shortest
