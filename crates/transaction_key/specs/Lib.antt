pub mod TransactionKey
