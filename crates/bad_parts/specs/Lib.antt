pub mod BadParts
