-- `Laying` has the laws of what is put end to end into a lent list, `Turns` those of a packing, one piece or several at a time, `AckBytes` those of the
-- acks' bytes and of a probe's, `FlushAcks` those of flush_ack, `Fronts` those of the front of a flush.
pub mod Laying
pub mod Turns
pub mod AckBytes
pub mod FlushAcks
pub mod Fronts
