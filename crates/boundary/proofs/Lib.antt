-- `WordLaws`: the state as words. `CallLaws`: a call at the desk that the words say, and what is lent for it, once for the calls with and without a tape.
-- `FunctionLaws`: a function over a call that keeps its promise keeps its own.
pub mod WordLaws
pub mod CallLaws
pub mod FunctionLaws
