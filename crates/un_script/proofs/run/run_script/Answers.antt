use Rattle.std.proofs.Common.{inl, inr, ◌∙◌, sym, ap, Some, subst, List, ℕ, refl}
use Rattle.un_words.specs.declared.command.ProgramCommand.TheVariants.{Script, Follow, Make}
use Rattle.un_script.specs.Runs.{RunsMake}
use Rattle.un_script.proofs.Commands.{widened, same_make}
use Rattle.un_script.proofs.run.run_script.Goals as goal

pub returns-in-Some-Script-clause-statuses : goal.returns-in-Some-Script-clause-statuses
returns-in-Some-Script-clause-statuses g c = widened c.script_lines.result c.script_lines.ensures.statuses

pub returns-in-Some-Follow-clause-statuses : goal.returns-in-Some-Follow-clause-statuses
returns-in-Some-Follow-clause-statuses g c = widened c.run_follow.result c.run_follow.ensures.statuses

pub returns-in-Some-Make-clause-make : goal.returns-in-Some-Make-clause-make
returns-in-Some-Make-clause-make g c = λ seed count words.
    let same = same_make c.in-Some-Make.seed c.in-Some-Make.count seed count (sym (c.in-Some-Make.is ∙ ap Some c.in-Some-Make.field-0-is) ∙ c.read_words.ensures.only (Make seed count) words) in
    subst (λ (line : List ℕ). RunsMake line (g.K.Sink.taken c.args.sink.now) (g.K.Sink.taken c.make.new.sink) (g.K.Sink.faults c.args.sink.now) (g.K.Sink.faults c.make.new.sink) c.make.result) same c.make.ensures.made

pub returns-in_default-2-clause-no_command : goal.returns-in_default-2-clause-no_command
returns-in_default-2-clause-no_command g c = (
  λ e either. elim either as (λ _. ⊥) [
    | inl words ↦ (let is = c.read_words.ensures.only Script words in let none = c.in_default.is in cc)
    | inr (inl words) ↦ (let is = c.read_words.ensures.only Follow words in let none = c.in_default.is in cc)
    | inr (inr make) ↦ (let is = c.read_words.ensures.only (Make make.0 make.1.0) make.1.1 in let none = c.in_default.is in cc)
  ],
  λ n. refl,
)

pub returns-in_default-2-clause-script : goal.returns-in_default-2-clause-script
returns-in_default-2-clause-script g c = λ words. let is = c.read_words.ensures.only Script words in let none = c.in_default.is in cc

pub returns-in_default-2-clause-follow : goal.returns-in_default-2-clause-follow
returns-in_default-2-clause-follow g c = λ words. let is = c.read_words.ensures.only Follow words in let none = c.in_default.is in cc

pub returns-in_default-2-clause-make : goal.returns-in_default-2-clause-make
returns-in_default-2-clause-make g c = λ seed count words. let is = c.read_words.ensures.only (Make seed count) words in let none = c.in_default.is in cc
