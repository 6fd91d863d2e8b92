-- With this share, as many say it as said it before and one more.
use Rattle.std.proofs.Common.{◌≡◌, Bool, true, false, leb, [], ◌∷◌, suc, add-one, refl, sym, ap, ◌∙◌, ap₂}
use Rattle.std.specs.Bool.{then_some}
use Rattle.protocol.specs.Data.{pick, quorum}
use Rattle.wire.specs.Meaning.{data_of}
use Rattle.wire.specs.declared.values.Data.{Data}
use Rattle.store.specs.Store.{data_found}
use Rattle.steps.proofs.share.at_quorum.Goals as goal

some_or_none : (b : Bool) (d : Data) → data_found (then_some b d) ≡ pick b (data_of d ∷ []) []
unfolding pick
some_or_none true d = refl
some_or_none false d = refl

pub returns : goal.returns
returns c t h =
    let group = ap (λ z. z.clients) h.sized in
    let counted = c.count_alike-sharers.ensures.counted t h in
    let more = add-one c.count_alike-sharers.result ∙ ap suc counted in
    ap data_found c.then_some.ensures
    ∙ some_or_none _ c.args.share.now.what
    ∙ ap (λ v. pick v (data_of c.args.share.now.what ∷ []) []) (ap₂ leb (c.from.ensures ∙ c.quorum.ensures ∙ ap quorum (sym group)) more)
