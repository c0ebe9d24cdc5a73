-- A bound on the length of a report, from its parts.
use Rattle.std.specs.Prelude.{ℕ, ◌+◌, ◌*◌, length}
use Rattle.report.specs.Lines.{count_names, table_names}

-- the values of the count, of at most 5 digits, and of the two halves, of at most 20, with single spaces between them
abbrev pub count_most : ℕ
count_most = 5 + 1 + 20 + 1 + 20

-- the values of an entry: its row, of at most 5 digits, its slot, of at most 2, and two places, of at most 5, with single spaces between them
abbrev pub entry_most : ℕ
entry_most = 5 + 1 + 2 + 1 + 5 + 1 + 5

-- the two lines of names, the line of the count, and a line for each of 16,000 entries, each line with its line feed
abbrev pub report_bound : ℕ
report_bound = (length count_names + 1) + (count_most + 1) + (length table_names + 1) + 16000 * (entry_most + 1)
