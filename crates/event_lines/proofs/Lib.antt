mod Words
mod Peers
mod EventLines
