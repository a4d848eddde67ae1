-- Every marked case holds.
use mathlib.Core.Path.{◌≡◌, refl}
use mathlib.Core.Bool.{true}
use mathlib.Core.List.{map}
use Rattle.laws.specs.Tests.{every}
use Rattle.laws.specs.Lists.{any_of}
use Rattle.text.specs.Characters.{is_admissible}
use Rattle.text.specs.Digits.{value_after, digits}
use Rattle.text.specs.Strings.{begins}
use Rattle.text.specs.Forms.{template, has_form, numbers, form_text}
use Rattle.days.specs.Days.{is_leap, row, month_length, is_real, day_number}
use Rattle.headings.specs.ItemTypes.{is_input, is_trilateral, is_priority, is_payment}
use Rattle.headings.specs.HeadRules.{rule10, rule13, rule14}
use Rattle.headings.specs.Reading.{heading_of}
use Rattle.heading_writer.specs.Writing.{heading_text}
use Rattle.outcome_tables.specs.Outcomes.{outgoing, codes, in_class}
use Rattle.turning.specs.Turning.{barred, barred_to, turned}
use Rattle.outcomes.specs.Deriving.{tell_refusals, outgoing_kind, recipient, number_refusals, derive_refusals, derived_target}
use Rattle.figures.specs.Layouts.{run, is_empty, head_is, fits, part}
use Rattle.figures.specs.Accounts.{weight, weighed, passes, halves_of, account_of}
use Rattle.fields.specs.Kinds.{place, kind_of}
use Rattle.fields.specs.Classes.{class_of, sum_group}
use Rattle.fields.specs.Readings.{text_of, reading_of}
use Rattle.fields.specs.Tails.{takes, reads, says_of}
use Rattle.lines.specs.Lines.{body, crlf, onto, lines}
use Rattle.rules.specs.Faults.{faults_of, faults_in, faults}
use Rattle.rules.specs.Rows.{sorted, rows_from}
use Rattle.rules.specs.LineRules.{rule1}
use Rattle.rules.specs.Said.{continuations, says, stands, continued, head_of, first_said, digest}
use Rattle.rules.specs.Spots.{field_tests, own_tests, block_tests, head_tests, field_spot}
use Rattle.cases.specs.Cases.{holds, marked}

pub every_marked : every (map holds marked) ≡ true
unfolding any_of is_admissible value_after digits is_leap row month_length is_real day_number begins template has_form numbers form_text is_input is_trilateral is_priority is_payment rule10 rule13 rule14 heading_of heading_text outgoing codes in_class barred barred_to turned tell_refusals outgoing_kind recipient number_refusals derive_refusals derived_target run is_empty head_is fits part place kind_of class_of sum_group weight weighed passes halves_of account_of text_of reading_of takes reads says_of body crlf onto lines faults_of sorted rows_from rule1 continuations says stands field_tests continued head_of first_said digest own_tests block_tests head_tests field_spot faults_in faults
every_marked = refl
