-- `run_cases::value` meets its contract: an arm has its letter's value, and the last is reached by no letter of the others. Assumes nothing.
use mathlib.Core.Path.{refl, sym, ap}
use native.Mathlib.Omega.{arith}
use borrow.Author.Tests.{ne_eqb}
use Rattle.run_cases.specs.Curves.{case_value, far_of}
use Rattle.run_cases.proofs.value.Goals as goal

pub returns-in-122 : goal.returns-in-122
unfolding case_value
returns-in-122 c = sym (ap case_value c.in-122.is)

pub returns-in-116 : goal.returns-in-116
unfolding case_value
returns-in-116 c = sym (ap case_value c.in-116.is)

pub returns-in-113 : goal.returns-in-113
unfolding case_value
returns-in-113 c = sym (ap case_value c.in-113.is)

pub returns-in-104 : goal.returns-in-104
unfolding case_value
returns-in-104 c = sym (ap case_value c.in-104.is)

pub returns-in-102 : goal.returns-in-102
unfolding case_value
returns-in-102 c = sym (ap case_value c.in-102.is)

pub returns-in-117 : goal.returns-in-117
unfolding case_value
returns-in-117 c = sym (ap case_value c.in-117.is)

pub returns-in-118 : goal.returns-in-118
unfolding case_value
returns-in-118 c = sym (ap case_value c.in-118.is)

pub returns-in-119 : goal.returns-in-119
unfolding case_value
returns-in-119 c = sym (ap case_value c.in-119.is)

pub returns-in-109 : goal.returns-in-109
unfolding case_value
returns-in-109 c = sym (ap case_value c.in-109.is)

pub returns-in-98 : goal.returns-in-98
unfolding case_value
returns-in-98 c = sym (ap case_value c.in-98.is)

pub returns-in-99 : goal.returns-in-99
unfolding case_value
returns-in-99 c = sym (ap case_value c.in-99.is)

pub returns-in-97 : goal.returns-in-97
unfolding case_value
returns-in-97 c = sym (ap case_value c.in-97.is)

pub returns-in-100 : goal.returns-in-100
unfolding case_value
returns-in-100 c = sym (ap case_value c.in-100.is)

pub returns-in-105 : goal.returns-in-105
unfolding case_value
returns-in-105 c = sym (ap case_value c.in-105.is)

pub returns-in-106 : goal.returns-in-106
unfolding case_value
returns-in-106 c = sym (ap case_value c.in-106.is)

pub returns-in-110 : goal.returns-in-110
unfolding case_value
returns-in-110 c = sym (ap case_value c.in-110.is)

pub returns-in_default : goal.returns-in_default
unfolding case_value far_of
returns-in_default c =
    let b = c.args.byte in
    rw (
      ne_eqb b 122 (omega arith),
      ne_eqb b 116 (omega arith),
      ne_eqb b 113 (omega arith),
      ne_eqb b 104 (omega arith),
      ne_eqb b 102 (omega arith),
      ne_eqb b 117 (omega arith),
      ne_eqb b 118 (omega arith),
      ne_eqb b 119 (omega arith),
      ne_eqb b 109 (omega arith),
      ne_eqb b 98 (omega arith),
      ne_eqb b 99 (omega arith),
      ne_eqb b 97 (omega arith),
      ne_eqb b 100 (omega arith),
      ne_eqb b 105 (omega arith),
      ne_eqb b 106 (omega arith),
      ne_eqb b 110 (omega arith),
    ) refl
