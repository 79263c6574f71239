mod Walks
mod Further
mod Backs
mod Onlys
