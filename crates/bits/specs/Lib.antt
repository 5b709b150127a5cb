-- `Bits` has the bits of bytes, the fields made of them, and what reading them one after the other means. `Binary` writes numbers and bytes out
-- as bits, and packs bits.
pub mod Bits
pub mod Binary
