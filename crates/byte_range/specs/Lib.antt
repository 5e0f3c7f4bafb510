pub mod ByteRange
pub mod ByteRangeValues
pub mod ByteRangeLaws
