-- Which test gives a call its number, and the promise of a done call and of a refused one.
pub mod WriteLaws
pub mod ReadLaws
pub mod FlushLaws
pub mod CutLaws
