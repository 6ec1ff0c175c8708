mod AsciiNames
mod Digits
mod Pairs
mod Repeats
mod SeenNames
