-- The numbers of the whys.
use Rattle.std.specs.Prelude.{ℕ}
use Rattle.script_lang.specs.declared.whys.Why.{Why}
use Rattle.script_lang.specs.declared.whys.Why.TheVariants as why

-- the number of a why in every answer
abbrev pub number_of : Why → ℕ
number_of why.Word = 1
number_of why.Number = 2
number_of why.Node = 3
number_of why.Partition = 4
number_of why.Key = 5
number_of why.Transaction = 6
number_of why.Unread = 7
number_of why.Repeat = 8
number_of why.Limit = 9
number_of why.Missing = 10
number_of why.Byte = 11
number_of why.Unbuilt = 12
