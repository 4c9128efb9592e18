mod Headings
mod LegWalks
mod Telling
