-- What is answered where nothing is tried.
use Rattle.std.proofs.Common.{inl, inr, ℕ, Bool, List, Option, Some, refl, sym, ap, ◌∙◌}
use Rattle.std.specs.Prelude.{Result, Ok}
use Rattle.std.proofs.lemmas.Bool.{false≢true}
use Rattle.claxon.specs.Errors.{Error}
use Rattle.claxon.specs.StreamInfos.{StreamInfo}
use Rattle.claxon_stream.specs.FrameDecoder.{CutIsComplete, EndIsComplete, EventIsOfStream, EventIsSound, FaultIsCharged, FaultIsComplete, FaultIsTimely, FrameIsComplete, FrameIsTimely, IsWaiting, ReadOnIsComplete, WasteIsInVain}
use Rattle.claxon_stream.specs.declared.event.Event.{Event}
use Rattle.claxon_stream.specs.declared.event.Event.TheVariants.{ReadOn}
use Rattle.claxon_stream.specs.declared.event.NeededBytes.{NeededBytes}
use Rattle.claxon_stream.specs.declared.frames.FrameDecoder.{FrameDecoder}

module _ {at : ℕ} {bytes : List ℕ} {is_end : Bool} {old new : FrameDecoder} (needed : NeededBytes) (w : IsWaiting at bytes is_end old (Some needed) new) (known : Option StreamInfo) (capacity : ℕ) where
  abbrev event : Result Event Error
  event = Ok (ReadOn needed)

  pub sound : EventIsSound known capacity at bytes is_end old event new
  sound = let k = w.needs needed refl in (ap (λ (n : NeededBytes). n.position) k.0, ap (λ (n : NeededBytes). n.count) k.0, k.1, w.position)

  pub of_stream : EventIsOfStream known capacity at bytes is_end old event new
  of_stream = λ stream stands is. absurd is

  pub frame_is_complete : FrameIsComplete known at bytes old event
  frame_is_complete = λ block begins. inr (inr tt)

  pub fault_is_complete : FaultIsComplete known at bytes old event
  fault_is_complete = λ f begins. inr (inr tt)

  pub end_is_complete : EndIsComplete at bytes is_end old event
  end_is_complete = λ few ends. absurd (false≢true (sym (w.needs needed refl).1 ∙ ends))

  pub cut_is_complete : CutIsComplete known at bytes is_end old event
  cut_is_complete = λ two is ends. absurd (false≢true (sym (w.needs needed refl).1 ∙ ends))

  pub read_on_is_complete : ReadOnIsComplete known at bytes is_end old event
  read_on_is_complete = λ is ends. inl tt

  pub frame_is_timely : FrameIsTimely known at bytes is_end old event new
  frame_is_timely = ((w.needs needed refl).2 known).0

  pub fault_is_timely : FaultIsTimely known at bytes is_end old event
  fault_is_timely = ((w.needs needed refl).2 known).1

  pub waste_is_in_vain : WasteIsInVain known at bytes is_end old event new
  waste_is_in_vain = λ stream stands right. inl w.wastes_nothing

  pub fault_is_charged : FaultIsCharged known at bytes is_end old event new
  fault_is_charged = λ stream stands. (λ is. absurd is, λ other. w.charges_nothing)
