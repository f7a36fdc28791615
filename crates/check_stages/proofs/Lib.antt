pub mod PartsEnd
