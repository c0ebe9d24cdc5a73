-- A text recoded by word class: what an expression is and means, and what the call answers. `Laws` has what follows, `Steps` the contracts
-- inside.
pub mod Trees
pub mod Grammar
pub mod Judgements
pub mod Recoding
pub mod Worked
pub mod Steps
pub mod Laws
