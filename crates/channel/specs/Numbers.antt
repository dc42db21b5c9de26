-- The numbers of the check's answers: RULES.md R12.12. Assumes nothing.
use Rattle.std.specs.Prelude.{ℕ}
use Rattle.answers.specs.Numbers.{refusal_number}
use Rattle.element.specs.Numbers.{fault_number}
use Rattle.channel.specs.declared.Checked.{Checked}
use Rattle.channel.specs.declared.Checked.TheVariants.{Pass, NoSender, NoList, Element, TooFar, Refused}

-- "0 Pass, 1 Malformed"
abbrev pub answer_number : Checked → ℕ
answer_number Pass = 0
answer_number NoSender = 31
answer_number NoList = 32
answer_number (Element k f) = fault_number f
answer_number TooFar = 39
answer_number (Refused r) = refusal_number r

-- the element that is named, or 0
abbrev pub element_of : Checked → ℕ
element_of Pass = 0
element_of NoSender = 0
element_of NoList = 0
element_of (Element k f) = k
element_of TooFar = 0
element_of (Refused r) = 0
