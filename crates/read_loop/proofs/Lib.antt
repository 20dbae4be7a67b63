-- What the proofs of several functions use.
mod GoneLaws
mod SweptLaws
mod AlongLaws
