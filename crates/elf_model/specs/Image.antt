-- What comes out, and when it is right: memory as an image makes it, the map, the symbol table, the clauses.
pub mod MapRecord
pub mod MapText
pub mod MemoryImage
pub mod RightLink
pub mod SymbolTable
