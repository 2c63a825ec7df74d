mod Bytes
mod Laws
