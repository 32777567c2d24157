pub mod EncodeDecode
pub mod DecodeEncode
pub mod IllegalCount
pub mod Numbers
