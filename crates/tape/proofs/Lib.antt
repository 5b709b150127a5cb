-- The laws of `tape`'s definitions, leaves first. The functions go by `NumberLaws` and `PromiseLaws`. Theory: `Correspondence` is the theorem that
-- pmem_async_equiv_t.rs sketches; `AsPlain` makes a done call by tape the plain call of the log; `Steps` is what each call's promise does to view and
-- prediction, for runs of calls.
pub mod NumberLaws
pub mod PromiseLaws
pub mod Correspondence
pub mod Steps
pub mod AsPlain
