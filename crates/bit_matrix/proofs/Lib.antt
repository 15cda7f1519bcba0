mod Rows
mod Scan
mod Words
