-- The laws of the allocation. Those to cite: Laws (laws), Rising (vector-highest, sixtyfourths-highest), Budget (closes, rest, looks, coded-in,
-- answers_in), Follow (follow, replay), Trace (trace), SignedForms (trimmed-is, wanted-is, prio-is), Figures; for code Loops, Same, Bounds.
pub mod Steps
pub mod Follow
pub mod Trace
pub mod Rounds
pub mod Within
pub mod Bands
pub mod Looks
pub mod Ending
pub mod Budget
pub mod Highest
pub mod Rising
pub mod Laws
pub mod SignedForms
pub mod Loops
pub mod Same
pub mod Bounds
pub mod Figures
