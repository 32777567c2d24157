pub mod PassedOver
