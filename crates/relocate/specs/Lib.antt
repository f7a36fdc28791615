pub mod LocalUses
pub mod Fields
pub mod RelaOrders
pub mod ObjectRows
pub mod References
pub mod Values
pub mod Uses
pub mod SymbolTables
