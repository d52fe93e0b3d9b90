use Rattle.std.proofs.Common.{◌∷◌, [], ◌∙◌, rules, tests}
use Rattle.std.specs.Str.{bytes_eq}
use Rattle.std.proofs.lemmas.Iterator.{YieldsList-from_slice}
use Rattle.std.proofs.lemmas.Iterator.Search.{find_from_yields_List}
use Rattle.un_ask.specs.declared.word.EditWord.TheVariants.{Insert, Reshape, Attrs, Kind, Path, Flow, Ends, Note, Delete, Connect, Contain, Attach, Detach, Controller, Uncontroller}
use Rattle.un_ask.specs.Words.{edit_text}
use Rattle.un_ask.proofs.word.EditWord.named.Goals as goal

pub returns : goal.returns
returns c =
    let words = Insert ∷ Reshape ∷ Attrs ∷ Kind ∷ Path ∷ Flow ∷ Ends ∷ Note ∷ Delete ∷ Connect ∷ Contain ∷ Attach ∷ Detach ∷ Controller ∷ Uncontroller ∷ [] in
    c.copied.ensures ∙ find_from_yields_List (λ word. bytes_eq c.args.text.now (edit_text word)) _ _ _ c.find.ensures.ran (YieldsList-from_slice words cc) (λ x b q k. search (rules, tests))
